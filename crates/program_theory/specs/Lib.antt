pub mod Instances
pub mod Theory
pub mod Templates
pub mod Ready
pub mod Laws
