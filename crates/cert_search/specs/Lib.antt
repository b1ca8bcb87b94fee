pub mod Exact
pub mod Rows
pub mod Found
pub mod LawsOfTables
pub mod Rising
pub mod Inventory
