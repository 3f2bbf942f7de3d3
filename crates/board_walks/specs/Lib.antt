pub mod Plans
pub mod Planned
