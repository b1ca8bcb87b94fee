pub mod Found
pub mod Worked
pub mod Reports
