pub mod Reaching
pub mod Storing
pub mod Slices
pub mod Stored
