pub mod DecisionSteps
mod Examples
