pub mod Ascending
pub mod Four
pub mod Vectors
pub mod Worked
