-- Laws of finite sums and of largest values: their equations, and what changes them.
pub mod SumLaws
pub mod MaxLaws
pub mod ChangeLaws
pub mod PastLaws
