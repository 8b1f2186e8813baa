pub mod Answers
pub mod Keyed
pub mod Asking
pub mod Laws
pub mod Runs
