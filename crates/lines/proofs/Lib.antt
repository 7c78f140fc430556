pub mod InRange
pub mod Refusals
pub mod Saying
pub mod Once
