pub mod Sheet
pub mod Lengths
pub mod Lent
pub mod Outputs
pub mod Numbers
pub mod Answers
