pub mod ExprLayers
mod Examples
pub mod Rounds
pub mod Walks
pub mod Definitions
pub mod OneReplaced
pub mod Settling
pub mod Kept
pub mod Ended
