pub mod Operations
mod Only
