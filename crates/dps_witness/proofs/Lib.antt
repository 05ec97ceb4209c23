pub mod Models
pub mod Sources
pub mod Witnesses
