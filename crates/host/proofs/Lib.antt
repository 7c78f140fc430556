pub mod Rows
pub mod InRange
pub mod Ladder
