-- What the calls that check slots give, and when the check says yes.
pub mod Calls
pub mod CheckExactly
pub mod inner
