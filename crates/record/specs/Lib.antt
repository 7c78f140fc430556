pub mod Views
pub mod Parts
pub mod Power
pub mod Held
pub mod Sized
