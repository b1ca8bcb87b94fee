mod LawFacts
mod NumberFacts
mod PathFacts
mod Pieces
mod SoFar
mod Standing
mod WordFacts
mod Written
