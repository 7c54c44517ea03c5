pub mod Laws
pub mod Facts
pub mod Written
pub mod Published
