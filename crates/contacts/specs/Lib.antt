pub mod Scans
pub mod Counts
