pub mod Refused
pub mod Joining
pub mod Rounds
pub mod Bench
pub mod Demand3
pub mod TwoWays
pub mod Waiting
