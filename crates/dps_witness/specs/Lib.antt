pub mod Models
pub mod Reading
pub mod Answers
