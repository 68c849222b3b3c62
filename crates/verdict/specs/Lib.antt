pub mod Verdict
pub mod Promised
pub mod Reads
