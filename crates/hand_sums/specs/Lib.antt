pub mod Starred
pub mod NextTo
