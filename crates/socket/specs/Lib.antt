pub mod Deferred
pub mod Step
