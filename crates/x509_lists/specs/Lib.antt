pub mod Fields
pub mod Lists
pub mod Lookup
pub mod Reading
pub mod Steps
pub mod View
pub mod Visits
