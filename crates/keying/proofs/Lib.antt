pub mod Kept
pub mod Good
pub mod Changes
pub mod Due
pub mod Places
