pub mod Image
pub mod Layout
pub mod Record
pub mod Published
