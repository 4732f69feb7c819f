-- The stacking plan: what it looks at, what a tick and an earlier end leave of it, which starts pass it, and until when
-- a refused one stays refused.
pub mod PlanLaws
pub mod StackLaws
pub mod StackOrder
pub mod PlanSooner
pub mod StartPasses
pub mod EndLaws
pub mod RefusedLaws
