pub mod Wires
pub mod Reading
pub mod Keeping
pub mod Stepping
pub mod Notifying
pub mod Resetting
pub mod Index
pub mod Links
