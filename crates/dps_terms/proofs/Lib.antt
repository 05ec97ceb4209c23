pub mod Subterms
pub mod Replacing
pub mod Listing
pub mod Building
pub mod Arguments
pub mod Bound
pub mod Finding
pub mod Preorder
pub mod Roots
pub mod SameCells
pub mod Stacked
pub mod Listed
pub mod Instances
mod Digesting
pub mod Walking
