pub mod Tagging
pub mod ExplicitLaws
pub mod ImplicitLaws
pub mod Parsing
pub mod Parsers
pub mod Optional
