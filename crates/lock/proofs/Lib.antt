pub mod Arrays
pub mod Reading
mod Inside
pub mod Promise
pub mod Played
