pub mod Engines
pub mod Ends
pub mod Lists
