pub mod passing
pub mod calls
pub mod Sends
