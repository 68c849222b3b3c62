pub mod Turns
pub mod Branches
pub mod All
pub mod Listed
