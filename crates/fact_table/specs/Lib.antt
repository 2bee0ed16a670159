pub mod Equal
pub mod Lists
pub mod Rows
pub mod Columns
pub mod Held
