pub mod Concluding
pub mod Deciding
pub mod Ending
pub mod Ports
pub mod Saying
pub mod Standing
pub mod Turning
