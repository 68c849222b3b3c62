pub mod Heading
pub mod VariableLines
pub mod RowLines
pub mod SidedLines
pub mod MultiplierLines
