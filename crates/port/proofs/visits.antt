pub mod Visiting
pub mod Only
