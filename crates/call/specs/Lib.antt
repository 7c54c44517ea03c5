pub mod Call
pub mod Parts
pub mod Published
