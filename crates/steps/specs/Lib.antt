pub mod Layout
pub mod Codes
pub mod Memory
pub mod Ready
pub mod Shares
