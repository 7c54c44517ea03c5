pub mod Settling
pub mod Operands
pub mod Stamps
pub mod Sorts
