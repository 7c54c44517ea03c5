pub mod Layout
pub mod Cursor
pub mod outcomes
pub mod Steps
pub mod Promises
pub mod Parsers
