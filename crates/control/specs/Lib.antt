pub mod ByEffect
