-- The run from fresh is finished by the bound, its last slot ends with it, and its slots are whole.
pub mod RunLaws
pub mod StretchLaws
pub mod RunEnd
pub mod SlotsMade
pub mod NewSlot
pub mod StartMade
pub mod RunMade
