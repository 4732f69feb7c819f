-- Laws of folds over lent slots, and of the fold of the check.
pub mod FoldLaws
pub mod CheckFold
