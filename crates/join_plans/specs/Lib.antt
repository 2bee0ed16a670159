pub mod Atoms
pub mod Count
pub mod Faults
pub mod Goals
pub mod Join
pub mod Once
