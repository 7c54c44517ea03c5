pub mod ArgTurn
pub mod Args
pub mod Suffixed
