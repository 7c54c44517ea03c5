pub mod Stepping
pub mod Stamps
pub mod Kept
pub mod Methods
