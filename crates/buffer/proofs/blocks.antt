pub mod Drains
pub mod Short
pub mod Listed
pub mod Blocks
