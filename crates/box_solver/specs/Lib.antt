pub mod Region
pub mod Trail
pub mod Steps
pub mod Cuts
pub mod Progress
pub mod Nodes
pub mod Answer
pub mod Laws
