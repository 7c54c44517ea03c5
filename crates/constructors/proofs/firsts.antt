pub mod Laws
pub mod Promise
pub mod Classes
