-- Laws of lists: what stands at a place, where some or all members have p, what is kept, and pieces of a list.
pub mod ListLaws
pub mod MemberLaws
pub mod NumbersLaws
pub mod EveryLaws
pub mod KeepLaws
pub mod PieceLaws
pub mod TestedLaws
pub mod MadeLaws
