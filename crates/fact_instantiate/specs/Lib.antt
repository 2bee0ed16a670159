pub mod Building
pub mod Shown
pub mod Instantiated
pub mod Named
