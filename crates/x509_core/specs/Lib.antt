pub mod Answers
pub mod Errors
pub mod Fronts
pub mod Grammar
pub mod Leaves
pub mod Parts
pub mod Reading
pub use Rattle.asn1_traits as asn1_traits
pub use Rattle.asn1_any as asn1_any
pub use Rattle.asn1_oid as asn1_oid
