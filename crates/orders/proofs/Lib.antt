pub mod Limits
pub mod Lines
pub mod Playing
pub mod LineByLine
pub mod Sizes
pub mod AcceptedRuns
