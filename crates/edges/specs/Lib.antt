pub mod Edges
pub mod Variables
pub mod Activity
pub mod RoomReads
pub mod Rooms
pub mod Row
pub mod Model
pub mod Ranges
