pub mod Value
pub mod Integers
pub mod Nearest
pub mod Representable
