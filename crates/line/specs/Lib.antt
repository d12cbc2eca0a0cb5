pub mod line
