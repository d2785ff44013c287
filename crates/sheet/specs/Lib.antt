pub mod Calls
pub mod Happened
pub mod Plain
pub mod Position
pub mod Stored
pub mod Loading
pub mod Trip
pub mod Slips
