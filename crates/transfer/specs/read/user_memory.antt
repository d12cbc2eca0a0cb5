pub mod UserRead
