mod Inside
pub mod Promise
pub mod Playing
