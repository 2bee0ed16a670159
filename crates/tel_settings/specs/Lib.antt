pub mod Command
pub mod Given
pub mod Laws
pub mod Names
pub mod Parts
pub mod Pieces
pub mod Run
pub mod Words
