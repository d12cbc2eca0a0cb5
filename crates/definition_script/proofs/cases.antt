pub mod Records
pub mod Listings
