pub mod Compact
pub mod Insertion
pub mod Operations
pub mod Idle
pub mod Sound
pub mod Cases
mod First
