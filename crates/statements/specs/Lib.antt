pub mod outcomes
pub mod Shape
pub mod Acts
