pub mod Ruling
pub mod Given
pub mod Alone
pub mod Ways
