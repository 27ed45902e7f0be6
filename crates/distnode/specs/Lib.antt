pub mod CommandLine
pub mod Fault
pub mod Followed
pub mod Printed
pub mod RunPrinted
pub mod RunStopped
pub mod Stopped
