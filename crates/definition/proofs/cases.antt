pub mod Edges
pub mod Copies
pub mod Damaged
pub mod Promises
