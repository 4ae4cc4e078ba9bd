pub mod Rewriting
pub mod Answering
pub mod FirstLine
pub mod KindLaws
pub mod Reread
pub mod Moved
pub mod Refusals
