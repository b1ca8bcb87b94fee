mod Agreeing
mod DigitFacts
mod LineFacts
mod PairFacts
mod Progress
mod Seams
pub mod Digests
pub mod EachRow
