-- The check, slot by slot, gives what the definitions say of all slots.
pub mod SeenLaws
pub mod RightLaws
pub mod StepLaws
pub mod KeepLaws
pub mod TurnLaws
