-- The records of a load file as bytes, and writing a load.
pub mod Records
pub mod Writing
pub mod Calls
pub mod WorkedFile
pub mod WorkedCases
