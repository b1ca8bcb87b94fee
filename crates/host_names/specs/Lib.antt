pub mod Hosts
pub mod Names
pub mod Addresses
pub mod HostNames
pub mod Asked
pub mod Refusals
pub mod Examples
