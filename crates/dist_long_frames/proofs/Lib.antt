pub mod Frames
pub mod Pieces
