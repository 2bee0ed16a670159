pub mod Points
pub mod Productions
pub mod Refusals
pub mod Shapes
pub mod Steps
