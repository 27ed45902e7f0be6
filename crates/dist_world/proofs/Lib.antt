pub mod Marked
pub mod Runs
pub mod UpLinks
pub mod Naming
pub mod Agreed
