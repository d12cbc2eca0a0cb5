pub mod create
