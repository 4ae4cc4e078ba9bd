pub mod Verdict
pub mod Keeping
pub mod Looks
pub mod Given
