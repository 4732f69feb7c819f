-- The schedule file as bytes, when its slots are too many, and what the calls that write it give.
pub mod ScheduleFile
pub mod Calls
pub mod WorkedCases
