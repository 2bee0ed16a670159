pub mod Fits
pub mod Printable
pub mod Left
pub mod Printed
pub mod Closed
pub mod Steps
