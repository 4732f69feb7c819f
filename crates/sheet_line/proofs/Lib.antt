-- Laws of one line of a sheet: read and written, both ways; sameness of results, and worked cases.
pub mod FieldLaws
pub mod LineParts
pub mod LineLaws
pub mod TextLaws
pub mod MarkLaws
pub mod ReadingLaws
pub mod CallLaws
pub mod WorkedHold
