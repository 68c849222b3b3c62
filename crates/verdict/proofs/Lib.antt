pub mod Full
pub mod Whole
pub mod Lists
pub mod Found
pub mod Uncontained
