pub mod GeneralNames
pub mod Serving
pub mod Demanding
pub mod Refusing
pub mod View
pub mod Examples
pub use Rattle.cert_purpose as cert_purpose
pub use Rattle.cert_judge as cert_judge
