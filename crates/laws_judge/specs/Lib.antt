pub mod PathLengths
pub mod Serving
pub mod Worked
