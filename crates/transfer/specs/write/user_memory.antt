pub mod UserWrite
