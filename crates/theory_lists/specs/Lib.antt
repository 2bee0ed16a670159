pub mod Atoms
pub mod Renaming
pub mod Theories
pub mod Lists
pub mod Print
pub mod Laws
