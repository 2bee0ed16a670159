pub mod Said
pub mod Numbers
pub mod Laws
