pub mod Counts
pub mod Gathered
pub mod Lengths
pub mod Slices
pub mod Doubles
