pub mod Lists
pub mod Times
pub mod Worked
