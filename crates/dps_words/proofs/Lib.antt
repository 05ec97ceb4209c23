pub mod Planning
pub mod Replaying
