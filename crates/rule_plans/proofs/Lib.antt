pub mod Exprs
pub mod Atoms
pub mod Bodies
pub mod Live
