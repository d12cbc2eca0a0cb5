pub mod Rules
pub mod Chains
pub mod Cases
pub mod Tests
pub mod Steps
