pub mod Lists
pub mod Laws
pub mod Whole
pub mod Carry
pub mod Remaining
