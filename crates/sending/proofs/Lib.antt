pub mod Sent
pub mod Silence
