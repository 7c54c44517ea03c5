pub mod Tops
pub mod Laws
pub mod Readers
