pub mod scopes
pub mod Rooms
pub mod Entries
pub mod Laws
