-- What reading asks, part by part, beside what the check in memory asks.
pub mod ZeroLaws
pub mod FaultLaws
pub mod ReadingLaws
pub mod ReadingRowsLaws
pub mod PartLaws
