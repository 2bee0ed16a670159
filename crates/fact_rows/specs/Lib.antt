pub mod Forms
pub mod Walking
pub mod Once
pub mod Filling
pub mod Limit
