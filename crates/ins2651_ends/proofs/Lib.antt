pub mod Calls
pub mod Sending
pub mod Hearing
pub mod Untouched
