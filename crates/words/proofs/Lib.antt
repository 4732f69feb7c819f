-- Laws of numbers as bytes, over any width, of bytes written over others, of decimals
-- written and read, of pieces of bytes, of the lamp word, and sameness of results.
pub mod LittleEndianLaws
pub mod OverwriteLaws
pub mod DecimalLaws
pub mod ByteLaws
pub mod DigitLaws
pub mod SpellLaws
pub mod PlainLaws
pub mod ReadLaws
pub mod SignLaws
pub mod LampLaws
pub mod CallLaws
pub mod WorkedHold
