pub mod Advance
pub mod Framing
pub mod Fronts
pub mod Held
pub mod Pieces
pub mod Views
