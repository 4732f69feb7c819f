-- Laws of tests over the numbers below n, and over those from a on and below b.
pub mod TestLaws
pub mod FromLaws
