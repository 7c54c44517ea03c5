pub mod Given
pub mod Acting
