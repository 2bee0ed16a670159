pub mod StepLoops
pub mod Examples
