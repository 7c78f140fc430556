pub mod Bytes
pub mod Pointwise
pub mod Renewals
pub mod Columns
pub mod Passes
pub mod Once
