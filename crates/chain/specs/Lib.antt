pub mod Longest
pub mod Ordered
pub mod Examples
pub mod Links
pub mod Short
