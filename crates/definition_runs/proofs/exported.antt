pub mod Words
pub mod Steps
pub mod Runs
pub mod Exist
pub mod TwoRuns
pub mod Claims
