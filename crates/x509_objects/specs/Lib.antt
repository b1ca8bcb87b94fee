pub mod Identifiers
pub mod Table
pub mod Registry
