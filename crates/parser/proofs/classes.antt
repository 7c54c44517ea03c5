pub mod Loops
pub mod Members
pub mod Classes
pub mod Readers
