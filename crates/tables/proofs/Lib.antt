pub mod Rows
pub mod Chains
pub mod Plans
pub mod Masks
pub mod Tasks
pub mod Accesses
