-- Laws of the bench in memory, and sameness of results.
pub mod shown
pub mod choice
pub mod SameMoves
pub mod running
pub mod CallLaws
pub mod WorkedBench
