pub mod Delivery
pub mod Runs
pub mod Running
pub mod Verdict
pub mod Refusals
