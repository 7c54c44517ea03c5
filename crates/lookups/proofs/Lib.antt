pub mod Finds
pub mod Rows
pub mod Ivars
