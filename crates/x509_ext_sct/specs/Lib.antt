pub mod Reading
pub mod Timestamps
pub mod Values
pub mod View
