-- Finite sums, tests, lists, searches and sorting, in which the bench's rules are stated.
pub mod Sums
pub mod Lists
pub mod Searches
pub mod Sorting
