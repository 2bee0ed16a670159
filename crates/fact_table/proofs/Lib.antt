pub mod ListSteps
pub mod Numbering
pub mod Placing
pub mod Pushes
