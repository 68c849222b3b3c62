pub mod Lent
pub mod Reads
pub mod Ends
pub mod LargestWalk
