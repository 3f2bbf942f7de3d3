pub mod Sending
pub mod Range
pub mod Clocks
pub mod Arrived
pub mod Receiving
pub mod Reading
pub mod Sees
