pub mod Binding
pub mod Closure
pub mod Heads
pub mod Laws
pub mod Rules
pub mod Waiting
