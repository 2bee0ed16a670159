pub mod Goals
pub mod Taking
pub mod Passing
pub mod Laws
