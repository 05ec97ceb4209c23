pub mod Answers
pub mod Expansion
pub mod Laws
pub mod Limits
pub mod Locals
pub mod Meaning
pub mod Turns
pub mod Writing
