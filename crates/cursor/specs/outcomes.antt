pub mod Parsed
pub mod Moved
pub mod Ident
pub mod Matched
