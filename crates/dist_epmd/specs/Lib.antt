pub mod Answering
pub mod Registrations
pub mod History
pub mod Layout
pub mod Named
pub mod Nodes
pub mod Reading
pub mod Refusing
