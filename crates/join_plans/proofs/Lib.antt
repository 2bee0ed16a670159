pub mod Arranged
pub mod Counting
pub mod Exact
pub mod Filling
pub mod Once
pub mod Ranges
pub mod Examples
