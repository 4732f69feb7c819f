-- What the parts of the code give, for private functions alone: nothing here needs to be believed.
pub mod Seen
