pub mod Outcome
pub mod AtOnce
