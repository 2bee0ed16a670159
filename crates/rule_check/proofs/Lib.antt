pub mod FirstCauses
pub mod OneCause
pub mod Replacing
pub mod Kept
mod Examples
pub mod SomeCause
