pub mod LargestWalk
pub mod Entries
pub mod Gap
pub mod Congruence
