pub mod Called
pub mod Given
pub mod Rules
