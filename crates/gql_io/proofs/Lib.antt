pub mod Pieces
pub mod ReadingSteps
pub mod WritingSteps
