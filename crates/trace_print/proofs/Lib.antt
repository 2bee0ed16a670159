pub mod Steps
pub mod Rests
pub mod Texts
pub mod Writing
pub mod Found
