pub mod Filled
pub mod Starting
