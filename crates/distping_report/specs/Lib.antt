pub mod Texts
pub mod Shown
pub mod Objects
pub mod Found
pub mod Sinks
pub mod Results
