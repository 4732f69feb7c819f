-- What is looked up of the rows of a load, the stacking plan over that, and the first candidate
-- that passes it.
pub mod Looks
pub mod Boards
pub mod Choices
pub mod Calls
pub mod WorkedLooks
pub mod WorkedChoices
pub mod WorkedStarts
pub mod inner
