-- Laws of what is looked up, of the board, the plan over it and the search, sameness of results, worked cases.
pub mod StoreLaws
pub mod LookLaws
pub mod BoardLaws
pub mod OrderLaws
pub mod refused
pub mod ReadyLaws
pub mod SearchLaws
pub mod NumberLaws
pub mod SweepLaws
pub mod SweptLaws
pub mod NextLaws
pub mod CallLaws
pub mod WorkedHold
