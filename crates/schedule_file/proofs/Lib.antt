-- The laws of the calls that write slots: what the code gathers is what the definitions say of all slots.
pub mod FileLaws
pub mod RoomLaws
pub mod RecordLaws
pub mod CallLaws
pub mod WorkedHold
