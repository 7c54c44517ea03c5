pub mod Lines
pub mod Stored
pub mod Standing
pub mod Taking
pub mod Load
