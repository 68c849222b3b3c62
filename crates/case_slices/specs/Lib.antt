pub mod Slices
pub mod Cases
