pub mod Walk
pub mod Reads
pub mod StateReads
pub mod States
pub mod Step
