pub mod GroupLaws
pub mod Laws
pub mod PurposeLaws
