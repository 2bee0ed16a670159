pub mod Values
pub mod Programs
pub mod Laws
