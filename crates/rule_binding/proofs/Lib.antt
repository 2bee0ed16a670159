pub mod Marks
pub mod States
pub mod Predicates
pub mod Settings
pub mod Bodies
pub mod Examples
