-- A load in memory: its parts, the view of it that the rules use, and the check with its numbers.
pub mod Load
pub mod View
pub mod Faults
pub mod Check
pub mod Plain
pub mod Acceptable
pub mod Calls
pub mod Notation
pub mod WorkedRanges
pub mod WorkedWindows
pub mod WorkedCases
pub mod WorkedUnused
pub mod WorkedUrgent
pub mod WorkedFactory
pub mod WorkedParts
