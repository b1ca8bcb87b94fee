pub mod FaultLaws
pub mod Laws
