pub mod Rows
pub mod Counters
pub mod Held
pub mod Example
