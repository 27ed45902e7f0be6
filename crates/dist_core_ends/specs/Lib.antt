pub mod Ends
pub mod Forgetting
pub mod Change
pub mod Keeping
pub mod Places
pub mod Words
pub mod Progress
