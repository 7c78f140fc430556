pub mod Turning
pub mod Whole
pub mod Told
pub mod Held
pub mod Handing
pub mod Repeating
pub mod Lessening
pub mod Overrunning
