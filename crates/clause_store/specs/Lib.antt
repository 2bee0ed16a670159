pub mod Held
pub mod Flat
pub mod Closure
pub mod Counts
pub mod Laws
