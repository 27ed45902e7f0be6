pub mod Histories
pub mod Closings
