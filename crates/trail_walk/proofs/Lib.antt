pub mod WaySteps
pub mod WalkEnding
