pub mod Found
pub mod Planning
pub mod RisingOnce
