pub mod Naming
pub mod Lasts
pub mod Watches
pub mod Reports
pub mod Tallies
pub mod Counts
pub mod Counted
