pub mod Written
pub mod RestrictedRows
pub mod Ones
pub mod Alike
pub mod Worked
