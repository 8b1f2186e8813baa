pub mod Implies
pub mod Table
pub mod Laws
pub mod Facts
