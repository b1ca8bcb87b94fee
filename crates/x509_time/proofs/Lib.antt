pub mod HeaderLaws
pub mod Items
pub mod LateLaws
pub mod MomentLaws
pub mod RangeLaws
pub mod TimeLaws
pub mod UpdateLaws
pub use Rattle.x509_core.proofs.FrontLaws
