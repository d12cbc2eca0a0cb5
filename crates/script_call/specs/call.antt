pub mod CallMade
pub mod CallDone
