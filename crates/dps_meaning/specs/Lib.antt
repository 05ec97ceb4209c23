pub mod Causes
pub mod Meaning
pub mod Faults
pub mod Refusals
pub mod Laws
