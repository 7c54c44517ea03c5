pub mod Layout
pub mod firsts
pub mod Walks
pub mod Flows
