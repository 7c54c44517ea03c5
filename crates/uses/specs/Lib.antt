pub mod Layout
pub mod Users
