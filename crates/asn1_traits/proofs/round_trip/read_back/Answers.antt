use Rattle.std.proofs.Common.{List, ℕ, Bor}
use Rattle.asn1_traits.proofs.Rounds.{element_back}
use Rattle.asn1_traits.proofs.round_trip.read_back.Goals as goal

pub returns : goal.returns
returns g c = λ v rest form short e.
    element_back g.E.From.from_gives g.T.DerMeaning.der_grows g.T.DerMeaning.der_cut (λ (i : Bor (List ℕ)). i.now) g.T.ToDer.is_der g.T.ToDer.element g.T.DerMeaning.der_reads g.met.T.DerElement.reads_back g.met.T.DerElement.same_back g.T.DerMeaning.one_rest
    c.args.bytes.now c.from_der.result c.from_der.ensures v rest form short e
