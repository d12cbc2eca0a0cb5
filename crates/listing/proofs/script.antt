pub mod Runs
pub mod Tells
pub mod Alls
pub mod Lengths
pub mod Chain
pub mod Complete
pub mod Closings
