pub mod Prints
pub mod Saying
