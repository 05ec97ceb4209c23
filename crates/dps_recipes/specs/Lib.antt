pub mod Reduction
pub mod Values
