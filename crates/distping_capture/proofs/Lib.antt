pub mod Counting
pub mod Following
pub mod Keeping
pub mod Meeting
pub mod Showing
pub mod Taking
pub mod Talking
