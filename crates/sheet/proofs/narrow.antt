-- Numbers cut to their fields: the check finds the same. With which numbers a sheet is refused.
pub mod CutLaws
pub mod RowCut
pub mod RowKept
pub mod LoadKept
pub mod SheetKept
pub mod WindowFound
pub mod SheetNumbers
