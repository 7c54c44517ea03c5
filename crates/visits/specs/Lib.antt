pub mod Visits
pub mod Methods
