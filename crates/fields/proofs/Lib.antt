pub mod Digits
pub mod Gathered
pub mod Numerals
