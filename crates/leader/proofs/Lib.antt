pub mod Down
pub mod Leading
