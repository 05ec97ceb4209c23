pub mod Scene
pub mod Levels
pub mod Solutions
pub mod Search
pub mod Laws
pub mod Examples
pub mod Code
pub mod Matched
