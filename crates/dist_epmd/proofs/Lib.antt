pub mod Words
pub mod FieldLaws
pub mod Histories
pub mod Legal
pub mod Messages
pub mod Named
pub mod Own
