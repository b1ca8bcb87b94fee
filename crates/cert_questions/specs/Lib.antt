pub mod Shown
pub mod Questions
pub mod Agreeing
pub mod Text
pub mod Places
pub mod Firsts
pub mod Examples
