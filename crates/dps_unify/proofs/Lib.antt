pub mod Orders
pub mod Bound
pub mod Trees
pub mod Chains
pub mod Pairs
pub mod Reached
pub mod Keeping
pub mod Unifying
pub mod Solving
pub mod Matched
pub mod Deciding
pub mod Unique
mod Following
mod Compared
