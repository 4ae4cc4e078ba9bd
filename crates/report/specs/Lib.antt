pub mod Report
pub mod Apart
pub mod Totals
pub mod Shown
pub mod Sizes
