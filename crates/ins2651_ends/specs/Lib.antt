pub mod OnALine
pub mod Fresh
