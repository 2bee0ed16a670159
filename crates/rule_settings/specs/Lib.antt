pub mod Said
pub mod Candidates
pub mod Numbers
pub mod Waiting
