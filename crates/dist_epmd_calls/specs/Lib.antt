pub mod Refusals
pub mod Mapping
pub mod Asking
pub mod Serving
pub mod Bodies
pub mod Steps
