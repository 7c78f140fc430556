pub mod Transcripts
pub mod Typed
pub mod Asked
