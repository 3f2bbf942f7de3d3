pub mod Interrupts
pub mod Ports
pub mod Runs
pub mod Channels
pub mod Rows
pub mod About
pub mod Cases
pub mod Lines
