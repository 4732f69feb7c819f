-- The worked cases hold, by computing.
pub mod WorkedComputing
pub mod WorkedBound
pub mod WorkedBlame
pub mod WorkedMoves
pub mod WorkedChecks
