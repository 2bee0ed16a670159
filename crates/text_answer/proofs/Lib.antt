pub mod Theories
pub mod Verdicts
pub mod Runs
pub mod Capped
pub mod Lengths
