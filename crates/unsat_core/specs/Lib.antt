pub mod Renumbered
pub mod Cores
pub mod Laws
pub mod Named
pub mod Steps
pub mod Numbers
pub mod Facts
