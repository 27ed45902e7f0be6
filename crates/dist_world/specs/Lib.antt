pub mod Doing
pub mod Setups
pub mod Asking
pub mod Ups
pub mod Words
