pub mod Keys
pub mod Named
