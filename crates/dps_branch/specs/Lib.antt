pub mod Sides
pub mod LookTrees
pub mod Looks
