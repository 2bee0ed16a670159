pub mod Decimals
pub mod Lookup
pub mod Members
pub mod Told
