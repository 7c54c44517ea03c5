pub mod Passes
pub mod Given
