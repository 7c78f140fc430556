pub mod Changes
pub mod Repeat
pub mod Handover
pub mod Ready
