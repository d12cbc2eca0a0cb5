pub mod shift
pub mod buffer
pub mod blocks
