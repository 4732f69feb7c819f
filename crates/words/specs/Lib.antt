-- Numbers as bytes and as bits, over any width.
pub mod LittleEndian
pub mod LampWord
pub mod TwosComplement
pub mod Decimal
pub mod PlainDecimal
pub mod WorkedCases
pub mod Calls
