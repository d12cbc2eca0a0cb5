pub mod Changes
pub mod Smaller
pub mod UserMemory
