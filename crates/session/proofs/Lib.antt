pub mod Bytes
pub mod Sessions
pub mod Demands
pub mod FromC
