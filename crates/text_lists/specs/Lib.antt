pub mod Rows
pub mod Widened
pub mod Multipliers
pub mod Lent
pub mod Variables
pub mod VariablesLent
