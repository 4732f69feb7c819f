-- Laws of finite sums, tests, lists, searches and sorting, over any length.
pub mod sums
pub mod tests
pub mod lists
pub mod searches
pub mod sorting
