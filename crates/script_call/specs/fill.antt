pub mod FillMade
