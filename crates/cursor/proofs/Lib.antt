pub mod Laws
pub mod Wording
pub mod Leaves
pub mod Kept
