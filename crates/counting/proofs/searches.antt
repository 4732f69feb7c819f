-- Laws of searches: what is found is the first that has p, the one of them with the least key, or the first of the
-- largest.
pub mod FirstInLaws
pub mod FirstToLaws
pub mod LeastLaws
pub mod LargestLaws
pub mod SelectionLaws
