pub mod Layout
pub mod tables
pub mod Memory
