-- For demand 1: each refusal has its own number of the table, each call refuses with no other and exactly then, and a
-- refusal is returned alone.
pub mod NumberLaws
pub mod CallNumbers
pub mod WritingCalls
pub mod NumbersHold
pub mod ExactlyHolds
pub mod LoadFirstHolds
pub mod RefusedAlone
pub mod RefusedMoves
