pub mod Far
pub mod Halved
