pub mod Reached
pub mod Picked
pub mod Turns
pub mod Sizes
pub mod Limited
pub mod Played
