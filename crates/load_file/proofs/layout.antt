-- Where records stand, how long they are, and that they are bytes.
pub mod RecordLaws
pub mod FieldLaws
pub mod PlaceLaws
pub mod ByteLaws
pub mod SliceLaws
