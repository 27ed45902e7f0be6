pub mod Lanes
pub mod Played
pub mod Playing
pub mod Reports
pub mod Rows
pub mod Seeing
pub mod Trying
