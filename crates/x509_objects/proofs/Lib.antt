pub mod MapLaws
pub mod TableLaws
