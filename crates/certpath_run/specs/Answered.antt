-- What `find` returns, for the crates above.
pub use Rattle.certpath_find.specs.Answered.{HoldsOfItems, IsFound, NamesCertificates}
