pub mod Laws
pub mod NameLaws
pub mod CopiedNames
