pub mod Places
pub mod FromLock
pub mod Stepping
pub mod Waiting
pub mod Owning
