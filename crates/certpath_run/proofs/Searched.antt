-- Laws of what `find` returns, for the crates above.
pub use Rattle.certpath_find.proofs.Answering.{check_says_yes, one_classing}
