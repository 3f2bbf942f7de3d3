pub mod Decimals
pub mod Puts
pub mod Threes
pub mod Written
