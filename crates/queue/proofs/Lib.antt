pub mod Places
pub mod Meaning
pub mod Room
pub mod Range
pub mod Checking
pub mod Pushing
pub mod Popping
pub mod Once
