pub mod Told
pub mod ToldItems
pub mod Tried
pub mod Met
