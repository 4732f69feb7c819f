-- The walk over the lines of a sheet.
pub mod ReadLaws
pub mod LineWalk
pub mod WindowWalk
pub mod RunLaws
pub mod KeptLaws
pub mod SheetWalk
