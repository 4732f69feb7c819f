-- What is claimed of every call holds, a file a layer.
pub mod CallAnswers
pub mod WordCallsHold
pub mod LoadCallsHold
pub mod FileCallsHold
pub mod SheetCallsHold
pub mod BoundCallsHold
pub mod BenchCallsHold
pub mod ScheduleCallsHold
pub mod HostCallsHold
