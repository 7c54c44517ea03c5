pub mod Order
pub mod Sorted
pub mod Made
pub mod Rows
pub mod Joins
