pub mod script
pub mod listing
