pub mod Example
pub mod Lines
pub mod Texts
