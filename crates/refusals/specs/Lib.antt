-- The refusals and their numbers, the order of tests, and what a refused call leaves.
pub mod Checked
pub mod Refusals
pub mod Table
pub mod FirstMet
pub mod Given
pub mod Calls
pub mod WorkedCases
