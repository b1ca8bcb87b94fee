pub mod Names
pub mod Words
pub mod Lines
pub mod Counts
pub mod CountViews
pub mod Bundles
pub mod Views
pub mod Writes
