pub mod States
pub mod Known
pub mod Ranked
pub mod Templates
pub mod Ordered
