pub mod Additions
pub mod SecondLevels
pub mod Conflicts
pub mod WaysBack
pub mod FalseClauses
mod Examples
