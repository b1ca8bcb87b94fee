pub mod OfPathLengths
pub mod OfPaths
pub mod OfPermits
pub mod OfQuestions
pub mod OfReasons
pub mod OfServing
