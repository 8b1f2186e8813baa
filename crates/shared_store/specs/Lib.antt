pub mod Solving
pub mod Flights
pub mod Local
pub mod Laws
