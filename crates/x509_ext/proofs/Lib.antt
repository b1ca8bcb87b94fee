pub mod ExtensionLaws
pub mod PartLaws
pub mod OnceLaws
pub mod Pairs
