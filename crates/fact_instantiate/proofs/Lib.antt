pub mod ShownNumbers
pub mod Arranged
pub mod PlacesCounted
pub mod RowSteps
pub mod SameInstances
pub mod Stood
pub mod Templated
mod NamedKeys
