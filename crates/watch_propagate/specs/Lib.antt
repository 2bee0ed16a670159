pub mod Status
pub mod Propagation
