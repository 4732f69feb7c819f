-- Why the promises hold.
pub mod contracts
pub mod calls
pub mod CallsDecided
pub mod Joined
pub mod JoinedHolds
pub mod demand1
pub mod Demand1Holds
pub mod moves
pub mod demand2
pub mod Demand2Holds
pub mod Demand3Holds
pub mod loads
