pub mod Newlines
pub mod Lengths
