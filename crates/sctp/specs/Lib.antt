pub mod starts
pub mod Sctp
