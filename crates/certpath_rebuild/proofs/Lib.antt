pub mod Spelled
pub mod Writing
pub mod Ends
