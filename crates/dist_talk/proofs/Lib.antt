pub mod Behind
pub mod Frames
