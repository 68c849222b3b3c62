pub mod Directed
pub mod Neighbours
pub mod Compare
pub mod Cases
