pub mod Permitted
pub mod Purposes
pub mod Found
pub mod Restricting
pub mod Examples
