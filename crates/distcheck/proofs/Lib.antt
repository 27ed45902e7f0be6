pub mod Confirmed
pub mod Hearing
pub mod Lanes
pub mod Order
pub mod Printed
pub mod Steps
pub mod Worst
