pub mod Running
pub mod Told
pub mod OwnAnswer
pub mod OwnLock
pub mod OwnChain
pub mod NoPicks
pub mod Unread
pub mod Moved
