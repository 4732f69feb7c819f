-- The load cut at a row's number of steps runs as the load does until that row is finished, so each row ends by its row
-- bound.
pub mod CutLaws
pub mod CutCosts
pub mod CutBound
pub mod CutBlame
pub mod CutWindows
pub mod CutRunnable
pub mod CutPlan
pub mod CutMoves
pub mod CutRun
