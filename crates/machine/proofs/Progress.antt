-- Every run moves.
pub mod Leading
pub mod Waiting
pub mod Quiet
pub mod Creating
pub mod Helpful
pub mod Nearing
pub mod Somebody
pub mod Finishing
pub mod Tight
