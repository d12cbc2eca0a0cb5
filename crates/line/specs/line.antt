pub mod LineDone
pub mod LineWritten
