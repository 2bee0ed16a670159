pub mod Tallies
pub mod NoteSteps
pub mod Resolutions
pub mod Uips
pub mod Backing
pub mod LearntSteps
mod Examples
