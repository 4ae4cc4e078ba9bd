pub mod Lent
pub mod Starting
