pub mod Questions
pub mod Runs
