pub mod Multipliers
pub mod Lent
pub mod Refinement
pub mod Reads
