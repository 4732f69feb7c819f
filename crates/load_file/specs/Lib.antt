-- The load file as it is read: where its records stand, and the numbers of a refused one.
pub mod Places
pub mod Reading
pub mod RoundTrip
pub mod Calls
pub mod inner
pub mod WorkedCases
pub mod WorkedVersions
