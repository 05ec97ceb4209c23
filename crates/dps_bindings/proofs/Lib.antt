pub mod Puts
pub mod Newly
pub mod Roots
pub mod Setting
pub mod InTurn
