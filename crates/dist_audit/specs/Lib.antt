pub mod Lines
pub mod Links
pub mod Happenings
pub mod Faults
pub mod Outside
pub mod Kept
pub mod Refusals
pub mod Audit
