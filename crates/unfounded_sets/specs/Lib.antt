pub mod Unfounded
pub mod LoopClauses
pub mod Least
pub mod Marks
pub mod Waiting
pub mod Scanning
