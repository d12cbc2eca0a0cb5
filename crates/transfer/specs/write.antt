pub mod WriteChange
pub mod user_memory
