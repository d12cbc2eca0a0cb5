pub mod transferred
