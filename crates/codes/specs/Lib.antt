pub mod Places
pub mod Modifiers
pub mod Codes
pub mod Sequences
