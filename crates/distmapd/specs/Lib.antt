pub mod Answers
pub mod Lines
pub mod Listing
pub mod Logging
pub mod Members
pub mod Words
