pub mod Overruns
pub mod Queued
pub mod Agreeing
