pub mod BitLaws
pub mod Laws
pub mod PlainReads
pub mod TextLaws
