pub mod Statuses
pub mod Targets
pub mod Census
pub mod Pairs
pub mod Summary
pub mod Watching
pub mod History
pub mod Latency
