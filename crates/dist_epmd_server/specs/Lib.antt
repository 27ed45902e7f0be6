pub mod Attending
pub mod Owed
pub mod Owing
pub mod Serving
pub mod Turns
