pub mod Totals
pub mod Linking
pub mod Laying
