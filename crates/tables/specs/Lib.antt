pub mod Tables
pub mod Laid
