pub mod Faults
pub mod Ping
