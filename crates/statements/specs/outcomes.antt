pub mod Opened
pub mod Stops
