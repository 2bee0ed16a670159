pub mod Pushed
pub mod Meant
pub mod Fit
pub mod Stuck
