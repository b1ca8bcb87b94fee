pub mod MomentLemmas
pub mod DerForms
