pub mod Wholes
pub mod Judged
pub mod Touches
pub mod Heads
pub mod Letters
