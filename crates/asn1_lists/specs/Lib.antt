pub mod Steps
pub mod Containers
pub mod ContainerLaws
pub mod Ordered
pub mod OrderLaws
pub mod SetLaws
pub mod Encoding
pub mod Pairs
