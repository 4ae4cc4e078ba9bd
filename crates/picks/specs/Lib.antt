pub mod Sources
pub mod SourceLaws
pub mod LineLaws
