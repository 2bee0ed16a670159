pub mod Searches
pub mod Advancing
pub mod Steps
