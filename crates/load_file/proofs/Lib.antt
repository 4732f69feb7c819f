-- Laws of load files: what stands at a place, the two round trips, how much of a file matters, worked cases.
pub mod layout
pub mod faults
pub mod round_trip
pub mod front
pub mod CallLaws
pub mod WorkedHold
