pub mod Obeying
