pub mod AnswerLaws
pub mod Items
pub mod Laws
pub mod SignatureLaws
pub mod TaggedLaws
pub mod WantLaws
