pub mod Found
pub mod Going
pub mod Lines
pub mod Offsets
pub mod Once
pub mod Runs
pub mod SpelledKinds
pub mod Standing
