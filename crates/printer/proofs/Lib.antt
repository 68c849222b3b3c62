pub mod Parts
pub mod Example
pub mod Numbers
pub mod Lengths
pub mod Storing
pub mod StoredExample
pub mod ReadBack
