pub mod Telling
pub mod Partners
pub mod Answering
