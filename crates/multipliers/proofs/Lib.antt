pub mod Branches
pub mod Turns
