pub mod TextVerdict
pub mod Fronts
pub mod TextPromised
