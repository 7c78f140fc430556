pub mod Breaking
pub mod Docks
pub mod AtScans
pub mod AtSwaps
pub mod AtFrames
pub mod AtReads
pub mod Listed
