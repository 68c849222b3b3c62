pub mod Tests
pub mod Tallies
pub mod Marked
pub mod Searched
pub mod Counts
pub mod PlaceTests
pub mod RowTests
