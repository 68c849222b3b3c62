pub mod Tolerances
pub mod BandEdge
