pub mod Partition
pub mod Operations
pub mod Idle
pub mod Only
