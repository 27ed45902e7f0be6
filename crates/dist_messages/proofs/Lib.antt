pub mod Words
pub mod Readers
pub mod Bodies
pub mod Messages
pub mod Refusals
pub mod Writings
pub mod Putting
