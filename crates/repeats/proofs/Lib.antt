pub mod Stores
pub mod Runs
pub mod Gathers
pub mod Chains
pub mod Fronts
pub mod Each
