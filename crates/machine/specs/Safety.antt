-- Every run is safe: nothing lost, nothing twice, no task before an earlier conflicting one is over.

pub mod Locked
pub mod Dues
pub mod Device
pub mod Invariant
pub mod Bounds
