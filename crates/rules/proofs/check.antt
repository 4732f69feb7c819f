-- The check of slots says yes exactly when the rules of a schedule hold, and else gives 12, or the number of the rule
-- that is the first broken.
pub mod SlotTests
pub mod SlotsPass
pub mod BrokenTests
pub mod CheckWhole
pub mod CheckLaws
pub mod BrokenBefore
pub mod BrokenSlot
pub mod FirstBroken
pub mod CheckGiven
