pub mod Answers
pub mod Closing
pub mod Scan
pub mod Read
pub mod Swap
pub mod Frame
pub mod Calls
