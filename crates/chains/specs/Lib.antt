pub mod Layout
pub mod Chains
pub mod Once
pub mod Left
