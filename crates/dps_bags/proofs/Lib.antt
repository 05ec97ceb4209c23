pub mod Digesting
pub mod Drawing
pub mod Holding
pub mod Joining
pub mod Keeping
pub mod Shuffling
pub mod Taking
