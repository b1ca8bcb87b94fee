pub mod Steps
pub mod Walks
pub mod Elements
pub mod Items
pub mod Fault
