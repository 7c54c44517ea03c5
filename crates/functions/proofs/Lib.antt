pub mod Funs
pub mod Laws
pub mod Readers
