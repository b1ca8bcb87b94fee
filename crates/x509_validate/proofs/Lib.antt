pub mod Told
pub mod Lines
pub mod KeptFacts
pub mod NameLaws
pub mod KeyFacts
pub mod Refused
pub mod RepeatFacts
