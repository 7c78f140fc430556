pub mod InRange
pub mod Ladder
