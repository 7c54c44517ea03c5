pub mod Endings
pub mod Walking
pub mod Meeting
pub mod Naming
pub mod Setting
pub mod Promise
