-- Laws of the rules: of the bound; of a move, the plan and what a run keeps; of slots and the run that makes them; of
-- the cut and the check; demand 3 from all of them; and worked cases.
pub mod bound
pub mod moves
pub mod plan
pub mod invariant
pub mod slots
pub mod run
pub mod cut
pub mod check
pub mod Demand3
pub mod worked
