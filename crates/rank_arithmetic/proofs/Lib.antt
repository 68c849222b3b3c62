pub mod Grid
pub mod Widths
pub mod Shift
pub mod WideRanks
pub mod RankFields
pub mod RankSums
