pub mod Names
pub mod Runs
pub mod Texts
pub mod Lexes
pub mod Tried
