-- Document 01's loads give what it says, their runs keep demand 3, and the idle builds are shut out: by computing.
pub mod Computing
pub mod LoadsHold
pub mod SheetsHold
pub mod RunsWorked
pub mod IdleShutOut
