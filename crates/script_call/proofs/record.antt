pub mod Tags
pub mod Records
