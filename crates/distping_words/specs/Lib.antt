pub mod Faults
pub mod Ports
