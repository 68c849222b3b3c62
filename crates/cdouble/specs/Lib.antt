pub mod Compensated
pub mod Exactness
