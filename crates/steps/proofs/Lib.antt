pub mod Parts
pub mod Acting
pub mod Stations
pub mod Choosing
pub mod Standing
pub mod Stepping
