pub mod Octets
pub mod Numbers
