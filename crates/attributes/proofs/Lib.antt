pub mod Classes
pub mod Marks
pub mod Found
pub mod Woken
pub mod Widened
pub mod Rules
