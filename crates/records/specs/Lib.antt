pub mod Accesses
pub mod Records
