pub mod RoundedUp
pub mod Ranges
pub mod TwoSum
pub mod SignedSteps
pub mod SplitParts
pub mod TwoProduct
pub mod Consequences
pub mod Contracts
