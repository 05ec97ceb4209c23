pub mod Know
pub mod Coding
