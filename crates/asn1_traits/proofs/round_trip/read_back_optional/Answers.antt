use Rattle.std.proofs.Common.{List, ℕ, Bor}
use Rattle.asn1_traits.specs.Options.{BeginsWithTag, EndsWithinHeader, OptionCut}
use Rattle.asn1_traits.proofs.Rounds.{option_back}
use Rattle.asn1_traits.proofs.round_trip.read_back_optional.Goals as goal

pub returns : goal.returns
returns g c = λ v rest form short fits e.
    option_back g.E.From.from_gives g.T.DerMeaning.der_grows (OptionCut EndsWithinHeader BeginsWithTag g.T.Tagged.tag_number g.T.DerMeaning.der_cut) (λ (i : Bor (List ℕ)). i.now) g.T.Tagged.tag_number g.T.ToDer.is_der g.T.ToDer.element g.T.DerMeaning.der_reads
    g.met.T.DerElement.one_element g.met.T.TaggedElement.has_tag g.met.T.DerElement.reads_back g.met.T.DerElement.same_back g.T.DerMeaning.one_rest
    c.args.bytes.now c.from_der.result c.from_der.ensures v rest form short fits e
