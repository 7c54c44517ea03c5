pub mod Walk
pub mod Coding
pub mod Live
pub mod Indexed
