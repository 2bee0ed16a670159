pub mod Agreed
pub mod Lengths
pub mod Limits
pub mod Looks
pub mod Rows
pub mod Rules
pub mod Uses
pub mod Walks
