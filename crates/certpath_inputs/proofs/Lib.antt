pub mod DemandFacts
mod InputFacts
mod Feeding
