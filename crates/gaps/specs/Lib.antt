pub mod Rows
pub mod Steps
pub mod Points
pub mod ExactGap
pub mod Sameness
pub mod ThirdDemand
