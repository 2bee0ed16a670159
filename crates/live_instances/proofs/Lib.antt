pub mod BindingOrder
pub mod OneList
pub mod Outcomes
pub mod Examples
