pub mod Numbers
pub mod Reading
pub mod LineEnds
pub mod FieldLaws
