pub mod Journal
pub mod Ledger
pub mod Right
pub mod InOrder
