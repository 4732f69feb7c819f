-- Slots keep the rules of a schedule, whatever the deadlines, exactly when they are whole: each fits behind those
-- before it, and each row has as many as it has steps.
pub mod SlotLaws
pub mod NextLaws
pub mod RowCounts
pub mod WholeLaws
pub mod RulesWhole
