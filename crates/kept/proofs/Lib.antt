pub mod Fits
pub mod Whole
pub mod Places
pub mod Measured
