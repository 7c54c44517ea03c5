pub mod Answered
pub mod Image
pub mod Laws
pub mod Publish
pub mod Published
pub mod Uses
