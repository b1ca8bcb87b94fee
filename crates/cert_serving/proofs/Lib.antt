pub mod Choices
pub mod Written
pub mod Certificates
pub mod Refused
pub mod Paths
pub mod Once
pub mod Worked
pub mod Processing
