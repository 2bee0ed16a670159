pub mod FlatSteps
pub mod Closures
pub mod Free
pub mod Counting
pub mod Levels
