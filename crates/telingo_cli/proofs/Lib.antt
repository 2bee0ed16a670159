pub mod Fronts
pub mod TextSteps
