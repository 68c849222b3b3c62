pub mod Tests
pub mod Laws
pub mod KindLoops
pub mod RowLoops
pub mod Pairs
pub mod Known
