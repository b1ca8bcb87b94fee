use Rattle.asn1_traits.proofs.Functions.{number_at, at_number, shortest_test}
use Rattle.asn1_traits.proofs.integer.integer_functions.Goals as goal

pub returns-clause-means : goal.returns-clause-means
returns-clause-means g c = λ content v. (
  (λ e. at_number g.T.DerInteger.fits g.T.DerInteger.in_range content (g.T.DerInteger.number v) g.met.T.DerInteger.fitting e),
  (λ m. number_at g.T.DerInteger.fits g.T.DerInteger.in_range content (g.T.DerInteger.number v) g.met.T.DerInteger.fitting m.0 m.1),
)

pub returns-clause-allowed : goal.returns-clause-allowed
returns-clause-allowed g c = λ content. shortest_test content
