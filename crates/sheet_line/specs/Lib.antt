-- One line of a route sheet: where its fields stand, what it says, and its text.
pub mod LineText
pub mod Line
pub mod Calls
pub mod WorkedCases
pub mod inner
