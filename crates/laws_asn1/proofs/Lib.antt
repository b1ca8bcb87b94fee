pub mod OfElements
pub mod OfHeaders
pub mod OfIdentifiers
pub mod OfLists
pub mod OfOptional
pub mod OfValues
