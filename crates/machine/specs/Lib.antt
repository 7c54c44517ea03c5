pub mod blocks
pub mod receivers
pub mod opnds
pub mod Analysed
