-- Laws that join a file that was read to the answer for it, and sameness of results.
pub mod ForCLaws
pub mod CallLaws
pub mod WorkedCalls
