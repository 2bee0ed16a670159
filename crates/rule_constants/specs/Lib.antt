pub mod Constants
pub mod Replaced
pub mod Operands
pub mod Solving
pub mod Laws
