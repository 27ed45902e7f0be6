pub mod Words
pub mod Setups
pub mod Orders
pub mod Places
pub mod Waits
pub mod Runs
