pub mod Refused
pub mod Examples
pub mod Digits
pub mod WordLaws
