pub mod EachOnce
pub mod Counted
pub mod Lowest
pub mod Puts
pub mod Fresh
