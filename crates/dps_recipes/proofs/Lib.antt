pub mod Fitting
pub mod Trying
pub mod Applying
pub mod Valuing
pub mod NodeByNode
