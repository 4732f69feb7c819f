-- Laws of a load: its check, what an accepted one has, what its windows give, sameness of results, and worked cases.
pub mod RangeLaws
pub mod TakenLaws
pub mod AcceptableLaws
pub mod CheckLaws
pub mod PlainLaws
pub mod AcceptableGood
pub mod WindowChain
pub mod WindowLaws
pub mod WindowLeft
pub mod CallLaws
pub mod WorkedHold
