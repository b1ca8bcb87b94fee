pub mod Fields
pub mod Octets
pub mod Range
pub mod Class
pub mod Examples
pub mod Reads
pub mod Times
pub mod Pieces
pub mod PieceOctets
pub mod Assembly
pub mod View
pub mod ClassView
pub mod Versions
pub mod AttributePieces
pub mod Extended
pub mod KeyIds
pub mod Parts
pub use Rattle.der_tree as der_tree
