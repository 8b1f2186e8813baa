pub mod Found
pub mod Corner
pub mod AtCorners
pub mod Tried
