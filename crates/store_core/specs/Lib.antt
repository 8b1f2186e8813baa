pub mod Cores
pub mod Steps
pub mod Seen
pub mod Schedules
pub mod Histories
pub mod Laws
