pub mod Goes
pub mod Passing
