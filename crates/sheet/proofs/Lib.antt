pub mod Tables
pub mod Levels
pub mod Shows
pub mod Stores
pub mod Loads
pub mod Trips
