pub mod Places
pub mod Reading
pub mod Spelling
pub mod Tokens
