pub mod Records
pub mod Printed
