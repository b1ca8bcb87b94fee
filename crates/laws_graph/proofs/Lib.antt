pub mod OfFraming
pub mod OfGraphs
pub mod OfNodes
