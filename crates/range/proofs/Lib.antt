pub mod Ranges
pub mod PowerOn
