pub mod Growth
pub mod Meant
pub mod Ordered
pub mod Tables
