pub mod Grouping
pub mod Policies
pub mod Purposes
pub mod Reading
pub mod Values
pub mod View
