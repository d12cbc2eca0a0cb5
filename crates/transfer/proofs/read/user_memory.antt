pub mod Landed
pub mod Outcomes
pub mod Passed
