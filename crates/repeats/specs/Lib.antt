pub mod Counted
pub mod Chained
pub mod Filled
