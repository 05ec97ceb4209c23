pub mod Instances
pub mod Positions
pub mod Known
mod Counting
mod Spelling
mod Unwriting
pub mod OverNodes
