pub mod Opnds
pub mod Passes
pub mod Sets
pub mod Given
