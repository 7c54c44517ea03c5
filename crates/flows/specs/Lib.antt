pub mod returning
pub mod Tally
pub mod Flows
pub mod Left
