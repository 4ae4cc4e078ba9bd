pub mod Work
pub mod Spans
