pub mod Apart
pub mod Bags
pub mod Digest
pub mod Places
