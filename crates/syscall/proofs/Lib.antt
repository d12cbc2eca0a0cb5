pub mod Passed
pub mod Numbers
pub mod Calls
pub mod Settled
pub mod Controlled
