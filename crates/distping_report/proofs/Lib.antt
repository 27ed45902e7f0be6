pub mod Behind
pub mod Members
pub mod ObjectLine
pub mod Shallow
