pub mod Lists
pub mod Laws
pub mod Modulo
pub mod Parts
pub mod Cases
