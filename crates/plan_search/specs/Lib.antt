pub mod Steps
pub mod Putting
pub mod Trying
pub mod Searching
