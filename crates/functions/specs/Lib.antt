pub mod outcomes
pub mod params
pub mod Bodies
pub mod Parsers
