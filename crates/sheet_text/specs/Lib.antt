pub mod Parts
pub mod Form
pub mod Lent
pub mod SheetIn
