pub mod Ifs
pub mod Steps
pub mod Paths
pub mod Cycle
pub mod Standing
pub mod Readers
