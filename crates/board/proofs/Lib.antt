pub mod Bits
pub mod Fits
