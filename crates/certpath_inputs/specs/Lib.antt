pub mod Check
pub mod Inputs
pub mod Demands
pub mod Uses
pub mod Reads
pub use Rattle.cert_serving as cert_serving
