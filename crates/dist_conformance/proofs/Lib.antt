pub mod Split
pub mod Values
pub mod Alternatives
pub mod Fronts
pub mod Within
pub mod Decided
pub mod Later
pub mod Challenges
