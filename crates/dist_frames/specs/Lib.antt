pub mod Stream
pub mod Reader
pub mod History
pub mod Kept
pub mod Stage
pub mod LinkReading
pub mod LinkHistory
pub mod Ticking
