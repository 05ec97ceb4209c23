pub mod Reading
pub mod Completing
pub mod Counting
pub mod Reporting
