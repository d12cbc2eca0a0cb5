pub mod Feed
pub mod Turn
