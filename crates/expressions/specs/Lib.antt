pub mod outcomes
pub mod Readers
