pub mod Entries
pub mod Table
pub mod Levels
pub mod Unassigned
pub mod Sound
