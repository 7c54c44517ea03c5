pub mod Layout
pub mod Tab
pub mod Room
pub mod Rows
pub mod View
pub mod Drafts
