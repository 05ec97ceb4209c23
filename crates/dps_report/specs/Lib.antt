pub mod Outcomes
pub mod Reports
pub mod Named
pub mod Stored
pub mod Finding
