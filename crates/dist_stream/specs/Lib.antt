pub mod Stream
pub mod Socket
pub mod Turns
pub mod Deadline
