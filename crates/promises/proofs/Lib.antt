pub mod Inputs
pub mod Bounds
pub mod Promises
pub mod Example
