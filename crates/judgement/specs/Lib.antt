pub mod Judgement
pub mod Reads
pub mod Gap
pub mod CutReads
pub mod Cut
