-- For demands 2 and 3: a bench in memory is the bench of the rules, in its state, in each move, and in a run by calls.
pub mod StateHeld
pub mod MovesHeld
pub mod RunByCalls
