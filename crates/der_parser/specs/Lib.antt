pub mod Tagged
pub mod Typed
pub mod Outcome
pub mod Handed
pub mod Items
pub mod Refusals
