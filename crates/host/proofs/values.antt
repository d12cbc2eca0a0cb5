pub mod Recorded
pub mod Disposed
pub mod Worded
