mod FieldCases
mod FieldNext
mod Stepping
