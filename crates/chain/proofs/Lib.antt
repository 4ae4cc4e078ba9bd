mod Scan
mod Linking
mod Conflicts
mod Lines
mod Telling
pub mod Ordered
pub mod Short
