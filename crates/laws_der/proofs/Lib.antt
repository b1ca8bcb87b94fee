pub mod OfTrees
