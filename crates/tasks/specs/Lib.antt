pub mod Accesses
pub mod Flags
pub mod Tasks
pub mod History
pub mod Duties
pub mod Played
pub mod Inside
pub mod Playing
