use Rattle.asn1_traits.proofs.Outcomes.{part_refused}
use Rattle.asn1_tagged.proofs.explicit.TaggedValueExplicitFromDerAny.try_from_der_any.Goals as goal

pub returns-in-Err-from_der : goal.returns-in-Err-from_der
returns-in-Err-from_der g c =
    let reads = g.T.DerMeaning.der_reads in
    part_refused g.E.From.from_gives g.T.DerMeaning.der_grows g.T.DerMeaning.der_grows g.T.DerMeaning.der_cut reads c.args.any.content.now c.in-Err-from_der.e c.within.result _ (λ h. h) c.in-Err-from_der.ensures c.within.ensures
    (λ none v m. none v.inner m.rest m.begins)
