pub mod Moved
pub mod Outcomes
