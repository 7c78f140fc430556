pub mod Computing
pub mod Stories
