pub mod Opens
pub mod Lines
pub mod History
pub mod Closing
pub mod Sharing
