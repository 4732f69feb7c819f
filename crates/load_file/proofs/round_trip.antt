-- The two round trips.
pub mod WrittenFile
pub mod ReadRow
pub mod ReadFile
pub mod RoundTrip
