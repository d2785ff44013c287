pub mod Blocks
pub mod FromFn
pub mod Trips
pub mod Zeros
