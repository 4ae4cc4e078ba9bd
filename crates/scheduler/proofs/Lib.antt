pub mod Lending
pub mod Draining
pub mod Picking
