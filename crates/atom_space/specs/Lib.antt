pub mod Numbers
pub mod Names
pub mod Naming
pub mod Laws
