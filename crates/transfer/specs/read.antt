pub mod ReadChange
pub mod user_memory
