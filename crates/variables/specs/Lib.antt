pub mod Layout
pub mod Scopes
pub mod Memory
pub mod Rooms
pub mod Promises
