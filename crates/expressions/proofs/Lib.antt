pub mod Loops
pub mod Stack
pub mod Ways
pub mod Turns
pub mod Standing
pub mod Readers
