pub mod CertificateLaws
pub mod Items
pub mod Runs
pub mod Shared
mod Seen
