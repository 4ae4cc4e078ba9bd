pub mod Lock
pub mod History
pub mod Inside
pub mod Arrays
pub mod Answers
pub mod Played
