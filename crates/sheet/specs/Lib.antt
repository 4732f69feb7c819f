-- Route sheets: their lines, the load that they spell, and the numbers of a refused one.
pub mod Lines
pub mod LineFaults
pub mod SheetRows
pub mod Reading
pub mod Writing
pub mod SheetTrip
pub mod Calls
pub mod Inputs
pub mod inner
pub mod WorkedSheets
pub mod WorkedCases
pub mod WorkedRanges
pub mod WorkedUrgent
