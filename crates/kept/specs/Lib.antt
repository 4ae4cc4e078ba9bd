pub mod Layout
pub mod Tasks
pub mod TaskLaws
pub mod Orders
pub mod OrderLaws
