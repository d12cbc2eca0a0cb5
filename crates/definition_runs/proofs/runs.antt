pub mod Memory
pub mod Match
pub mod Whole
pub mod Exists
