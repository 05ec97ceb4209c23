pub mod Bindings
pub mod Laws
pub mod Naming
pub mod Rules
pub mod LawsOfFlaws
