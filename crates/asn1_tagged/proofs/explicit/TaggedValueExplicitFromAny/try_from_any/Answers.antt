use Rattle.asn1_traits.proofs.Outcomes.{part_refused}
use Rattle.asn1_tagged.proofs.explicit.TaggedValueExplicitFromAny.try_from_any.Goals as goal

pub returns-in-Err-from_ber : goal.returns-in-Err-from_ber
returns-in-Err-from_ber g c =
    let reads = g.T.BerMeaning.ber_reads in
    part_refused g.E.From.from_gives g.T.BerMeaning.ber_grows g.T.BerMeaning.ber_grows g.T.BerMeaning.ber_cut reads c.args.any.content.now c.in-Err-from_ber.e c.within.result _ (λ h. h) c.in-Err-from_ber.ensures c.within.ensures
    (λ none v m. none v.inner m.rest m.begins)
