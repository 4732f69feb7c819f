-- What the program makes of the bytes that it has read.
pub mod Program
