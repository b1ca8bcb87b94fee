pub mod LabelFacts
pub mod LastFacts
pub mod EndFacts
pub mod FirstLabels
pub mod NoReason
