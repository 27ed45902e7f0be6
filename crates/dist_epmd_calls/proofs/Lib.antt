pub mod Words
pub mod Asks
pub mod Registering
pub mod Arrivals
pub mod Serves
pub mod Keeping
pub mod Creations
