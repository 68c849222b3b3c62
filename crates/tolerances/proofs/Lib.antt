pub mod Literals
pub mod Parts
pub mod Room
pub mod BandEdge
