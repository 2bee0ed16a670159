pub mod Named
pub mod Collected
pub mod Keys
pub mod Ranks
pub mod Sorted
pub mod Laws
