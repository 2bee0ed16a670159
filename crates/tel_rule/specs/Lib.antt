pub mod Rising
pub mod Nodes
pub mod Atoms
pub mod Ground
pub mod Laws
