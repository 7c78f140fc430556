pub mod Characters
pub mod Bytes
