pub mod Time
pub mod TimeReading
pub mod Table
pub mod Object
pub mod Lengths
