-- The bench in memory: one move of it, its run, and what the parts of its code give.
pub mod Held
pub mod Runs
pub mod Calls
pub mod inner
pub mod WorkedBench
