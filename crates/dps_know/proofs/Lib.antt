pub mod Listing
pub mod Parts
pub mod Walks
pub mod Recorded
pub mod Resolved
