-- The statement that contracts and relations are one, a file a layer.
pub mod WordContracts
pub mod LoadContracts
pub mod FileContracts
pub mod SheetContracts
pub mod BoundContracts
pub mod BenchContracts
pub mod ScheduleContracts
pub mod HostContracts
