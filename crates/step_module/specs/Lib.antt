pub mod Bodies
pub mod Rules
pub mod Modules
