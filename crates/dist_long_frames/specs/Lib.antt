pub mod Shortened
pub mod State
