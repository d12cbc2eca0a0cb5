pub mod tally
pub mod report
