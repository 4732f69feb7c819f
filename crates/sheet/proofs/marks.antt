-- Marks and the windows that they spell, both ways; how long a row's lines are.
pub mod WellLaws
pub mod SpelledLaws
pub mod WindowLaws
pub mod MarkLaws
pub mod RowTrip
pub mod LimitLaws
pub mod RowSize
