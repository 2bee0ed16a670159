pub mod Completions
pub mod Lengths
pub mod Laws
