pub mod Lists
mod Searches
pub mod Cancelled
mod Whole
