pub mod Rows
pub mod Bindings
pub mod Firsts
pub mod Leaving
