pub mod AttributeLaws
pub mod RequestLaws
