-- The two round trips.
pub mod PlaceLaws
pub mod LineTests
pub mod RowWalk
pub mod HeldLaws
pub mod ReadSheet
pub mod RowExt
pub mod WrittenSheet
pub mod WrittenLines
pub mod ByteLaws
pub mod SheetTrip
