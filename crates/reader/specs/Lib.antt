pub mod States
pub mod Reader
pub mod Reading
