pub mod NodeReads
pub mod Examples
