pub mod Storing
pub mod States
