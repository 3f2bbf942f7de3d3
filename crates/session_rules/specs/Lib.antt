pub mod Calls
pub mod Whole
pub mod Rows
pub mod Steps
pub mod Bytes
pub mod Offers
pub mod Delivered
