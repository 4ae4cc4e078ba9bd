-- The lock's workings: nothing here can be named outside these definitions. A client cites `Promise`.
pub mod Looks
pub mod Ring
pub mod Facts
pub mod Keeps
pub mod Laws
pub mod Changes
pub mod Histories
