-- What every start and idle tick of a run from fresh keeps, and with it that the clock stays below the bound.
pub mod Runnable
pub mod RunnableLaws
pub mod WorkedSince
pub mod Setting
pub mod Invariant
pub mod FullSetting
pub mod TickLaws
pub mod StartKeeps
pub mod ClockBound
pub mod IdleKeeps
pub mod MoveKeeps
