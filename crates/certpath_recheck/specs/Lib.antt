pub mod Recheck
pub mod Uses
