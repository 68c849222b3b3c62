pub mod Sterbenz
pub mod SignedRounding
pub mod Knuth
pub mod Veltkamp
pub mod Dekker
pub mod Product
pub mod Steps
