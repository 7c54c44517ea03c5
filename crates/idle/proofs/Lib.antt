pub mod Walk
pub mod Keeps
pub mod Idle
pub mod Settled
pub mod Others
