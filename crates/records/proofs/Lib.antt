pub mod Parser
pub mod Held
pub mod Lines
