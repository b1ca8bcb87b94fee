mod BundleLemmas
mod Examples
mod NumberLemmas
mod WordLemmas
mod MomentLaws
