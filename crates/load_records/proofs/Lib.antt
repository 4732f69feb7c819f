-- Laws of the records of a load file: their lengths, what is written one behind the other, and worked cases.
pub mod LengthLaws
pub mod RowLaws
pub mod WritingLaws
pub mod CallLaws
pub mod WorkedHold
