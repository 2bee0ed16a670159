pub mod Stops
pub mod Ranges
pub mod Laws
pub mod Operations
pub mod Testing
pub mod Parting
pub mod Rules
pub mod Facts
