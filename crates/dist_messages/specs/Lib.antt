pub mod Answer
pub mod Spelling
pub mod Canonical
pub mod Reading
pub mod Views
pub mod Causes
pub mod Writing
