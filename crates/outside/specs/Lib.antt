pub mod States
pub mod Counts
pub mod Bytes
pub mod Crash
pub mod TornFacts
pub mod Runs
pub mod RunFacts
