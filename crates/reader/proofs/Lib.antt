pub mod Found
pub mod Refusing
