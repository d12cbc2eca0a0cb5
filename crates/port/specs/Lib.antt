pub mod few
pub mod places
pub mod visits
