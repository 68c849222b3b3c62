pub mod System
pub mod Certificate
pub mod Reads
pub mod Added
pub mod AddedReads
pub mod Everywhere
