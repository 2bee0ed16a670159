pub mod TableSteps
pub mod LevelSteps
pub mod OpenStates
pub mod Values
pub mod Places
pub mod Ordered
pub mod SoundSteps
pub mod Derived
