pub mod Valid
pub mod Directions
pub mod Values
pub mod Shapes
pub mod Fresh
pub mod Heads
pub mod Made
pub mod Laws
