pub mod Lent
pub mod fill
pub mod call
