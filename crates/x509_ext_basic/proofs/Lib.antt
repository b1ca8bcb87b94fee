pub mod BasicLaws
pub mod Items
pub mod Laws
pub mod Told
