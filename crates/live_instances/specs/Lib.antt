pub mod Bindings
pub mod Instances
pub mod Laws
pub mod Reached
