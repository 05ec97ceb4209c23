pub mod Flaws
pub mod OneFlaw
