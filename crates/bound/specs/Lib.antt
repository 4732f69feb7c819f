-- The code of bound, margins, verdict and blame: what its calls promise, and what its parts give.
pub mod Calls
pub mod inner
