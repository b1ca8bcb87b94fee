use Rattle.std.proofs.Common.{length}
use Rattle.asn1_traits.proofs.Sequences.{HasRead}
use Rattle.asn1_traits.proofs.items.read_items.Given as goal

abbrev pub invariant-loop-rest : goal.invariant-loop-rest
invariant-loop-rest g l = HasRead g.T.DerMeaning.der_reads l.octets l.rest l.items.items

abbrev pub decreases-loop-rest : goal.decreases-loop-rest
decreases-loop-rest g l = length l.rest
