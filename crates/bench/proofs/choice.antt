-- What the search over a board chooses is what the rules choose.
pub mod JoinLaws
pub mod ChoiceLaws
pub mod NextLaws
