pub mod Lent
pub mod Going
