-- Every run moves.
pub mod Waiting
