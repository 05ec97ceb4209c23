pub mod Answers
pub mod Laws
pub mod Collecting
pub mod Ends
pub mod Matching
