pub mod Log
pub mod OneWay
pub mod Promise
pub mod Joined
pub mod Ends
