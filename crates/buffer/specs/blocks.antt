pub mod Drain
pub mod BlocksRun
