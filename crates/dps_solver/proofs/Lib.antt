pub mod Bindings
pub mod Once
pub mod Rows
pub mod Each
pub mod Matching
