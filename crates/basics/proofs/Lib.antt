pub mod Tables
pub mod Maps
pub mod Flags
pub mod Limits
pub mod Sameness
pub mod Zeros
pub mod Once
pub mod Cases
