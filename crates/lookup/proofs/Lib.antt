pub mod Small
pub mod Own
pub mod Entries
pub mod Found
