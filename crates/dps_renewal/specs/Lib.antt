pub mod Numbering
pub mod Putting
