pub mod Talks
pub mod Rooms
