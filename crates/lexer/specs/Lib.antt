pub mod Names
pub mod Lexed
