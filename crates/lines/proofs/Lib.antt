-- Laws of what the program prints: of texts, lines and the whole, of how much of a file matters, and sameness of
-- results.
pub mod PutLaws
pub mod LineLaws
pub mod ScheduledLaws
pub mod AnswerLaws
pub mod PrintedLaws
pub mod LengthLaws
pub mod PrintedFront
pub mod CallLaws
