pub mod Names
pub mod Linked
pub mod Slices
pub mod VarSets
pub mod Facts
pub mod Laws
