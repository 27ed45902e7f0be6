pub mod Words
pub mod Fault
pub mod Texts
pub mod Fields
pub mod Events
pub mod Happenings
pub mod Nodes
pub mod Scripts
