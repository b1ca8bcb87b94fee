pub mod Loops
pub mod Writing
pub mod Examples
