-- Laws of route sheets: marks and windows, the two round trips, numbers cut to their fields, the walk over lines.
pub mod marks
pub mod narrow
pub mod walk
pub mod trip
pub mod CallLaws
pub mod WorkedHold
