pub mod FaultText
pub mod FaultLines
pub mod FaultSteps
