pub mod Captures
pub mod Crossings
pub mod Printing
