pub mod Statuses
pub mod Looking
pub mod Bounds
