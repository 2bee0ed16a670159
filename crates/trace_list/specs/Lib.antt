pub mod Reading
pub mod Lengths
pub mod Listing
pub mod Seeking
pub mod Logging
