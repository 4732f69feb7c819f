-- The bound is at most 806,400, which one load reaches, and at least the tight bound; row bounds and margins lie in
-- their ranges; one place more is blamed only where its W is larger; and loads that differ in identifiers and boxes
-- alone have the same bound, margins, verdict and blames.
pub mod BoundLaws
pub mod BoundReached
pub mod TightBound
pub mod MarginLaws
pub mod BlameLaws
pub mod SameBound
