use Rattle.asn1_traits.specs.Wholes.{whole_of}
use Rattle.asn1_traits.proofs.Functions.{from_exact, none_at}
use Rattle.asn1_traits.proofs.Wholes.{from_fits}
use Rattle.asn1_traits.proofs.integer.AnyFromLeaf.from_content.Goals as goal

pub returns-clause-reads : goal.returns-clause-reads
returns-clause-reads g c = from_fits g.T.DerInteger.number g.T.DerInteger.in_range c.args.octets.now (whole_of c.in_ok-read_whole.field-0) c.from_whole.result c.in_ok-read_whole.ensures c.from_whole.ensures

pub returns-clause-exact : goal.returns-clause-exact
returns-clause-exact g c = from_exact g.T.DerInteger.number g.T.DerInteger.fits g.T.DerInteger.in_range c.args.octets.now (whole_of c.in_ok-read_whole.field-0) c.from_whole.result g.met.T.DerInteger.fitting c.in_ok-read_whole.ensures c.from_whole.ensures
