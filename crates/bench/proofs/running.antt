-- The run over a board: the ticks that it passes over, and its slots.
pub mod RunsLaws
pub mod FileRuns
pub mod RunningLaws
pub mod StartedRun
