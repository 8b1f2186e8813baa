pub mod Totals
pub mod Views
pub mod Rule
pub mod Plays
pub mod Seats
pub mod Locks
pub mod Lending
