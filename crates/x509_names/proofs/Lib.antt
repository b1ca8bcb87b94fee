pub mod Copied
pub mod Items
pub mod KeyLaws
pub mod LeafLaws
pub mod NameLaws
pub mod TextLaws
pub mod WideLaws
pub use Rattle.x509_core.proofs.FrontLaws
