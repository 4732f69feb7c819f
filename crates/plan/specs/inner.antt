-- What the parts of the code give, for private functions alone: nothing here needs to be believed.
pub mod Orders
pub mod Passing
pub mod Searching
pub mod Turns
pub mod Walks
pub mod Staying
