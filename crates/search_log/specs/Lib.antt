pub mod Alike
pub mod ValidLogs
pub mod Held
pub mod Writing
pub mod Laws
