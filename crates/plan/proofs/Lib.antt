pub mod Halves
pub mod Fields
pub mod Accepted
pub mod Refused
