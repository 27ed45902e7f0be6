pub mod Conversations
pub mod Flows
pub mod Numbers
pub mod Pieces
pub mod Recognized
pub mod Said
pub mod Verdicts
