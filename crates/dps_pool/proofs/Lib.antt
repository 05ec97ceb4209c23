pub mod Firsts
pub mod Stacks
pub mod Tables
