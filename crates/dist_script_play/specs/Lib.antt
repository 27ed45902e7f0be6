pub mod Played
pub mod Pages
pub mod Scenes
pub mod Lines
pub mod Worlds
pub mod Later
