pub mod Framing
pub mod Sayable
pub mod Versions
pub mod Wholes
pub mod Keys
pub mod Lists
