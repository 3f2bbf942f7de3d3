pub mod Ascii
pub mod Parted
pub mod Reading
