pub mod Fields
pub mod Identifiers
pub mod Lookup
pub mod Reading
pub mod Requests
pub mod View
