pub mod classes
pub mod Outcomes
