-- What the programs print for a load file.
pub mod Lines
pub mod Calls
pub mod Inputs
pub mod inner
