pub mod Occurring
pub mod Open
