mod Split
mod Printing
pub mod Fronts
mod Inputs
mod Reading
mod Rows
mod Scripts
