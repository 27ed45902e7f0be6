pub mod Aliases
pub mod Followed
pub mod Printing
pub mod Rows
pub mod RunStopped
pub mod Stopped
