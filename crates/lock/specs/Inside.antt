-- The lock's workings: nothing here can be named outside these definitions. A client cites `Promise`.
pub mod Ring
pub mod Invariant
