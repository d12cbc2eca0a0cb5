pub mod Place
pub mod Spelling
pub mod Writers
