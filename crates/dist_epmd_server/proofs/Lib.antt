pub mod Owings
pub mod Reporting
pub mod Turning
