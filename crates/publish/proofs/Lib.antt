pub mod Tables
pub mod Uses
pub mod Whole
