pub mod change
pub mod read
pub mod write
