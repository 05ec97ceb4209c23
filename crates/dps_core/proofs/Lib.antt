pub mod Lists
pub mod Books
pub mod Pools
pub mod Claiming
pub mod Moves
pub mod Dropping
