pub mod Turned
pub mod Turning
