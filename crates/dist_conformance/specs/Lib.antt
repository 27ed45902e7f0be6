pub mod Texts
pub mod Bodies
pub mod Packets
pub mod Judging
pub mod Outcomes
pub mod Verdicts
pub mod Later
pub mod Alternatives
