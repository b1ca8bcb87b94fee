pub mod EntryLaws
pub mod ListLaws
pub mod Seen
mod StepLaws
