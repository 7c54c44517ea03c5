pub mod Listed
pub mod Ring
pub mod Bit
pub mod Walk
pub mod Word
pub mod Words
