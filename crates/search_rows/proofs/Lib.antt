pub mod StillBegun
pub mod Fits
