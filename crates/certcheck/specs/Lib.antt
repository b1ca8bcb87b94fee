pub mod Ascending
pub mod PieceView
pub mod Stopping
pub mod Windows
