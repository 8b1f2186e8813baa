pub mod Layers
pub mod Firsts
pub mod Tries
pub mod Halving
