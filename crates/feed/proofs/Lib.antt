pub mod Moves
pub mod Blocks
pub mod Turns
pub mod Feeding
