pub mod Outcome
pub mod Loaded
pub mod Written
pub mod Short
pub mod Summed
