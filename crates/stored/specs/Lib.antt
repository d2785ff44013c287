pub mod Block
pub mod Read
