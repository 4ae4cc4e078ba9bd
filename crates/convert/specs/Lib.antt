pub mod Convert
pub mod FirstLine
pub mod Kinds
pub mod Reread
pub mod Examples
