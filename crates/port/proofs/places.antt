pub mod Lists
pub mod Shift
pub mod Size
pub mod Tests
pub mod Views
pub mod First
