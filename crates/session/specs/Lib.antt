pub mod Sessions
pub mod FromC
