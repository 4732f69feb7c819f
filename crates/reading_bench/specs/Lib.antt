-- The calls for C: what each of them gives for the bytes of a load file.
pub mod Calls
pub mod WorkedCalls
