use Rattle.asn1_traits.proofs.Outcomes.{refused_for}
use Rattle.asn1_tagged.proofs.implicit.TaggedValueImplicitFromAny.try_from_any.Goals as goal

pub returns-in-Err : goal.returns-in-Err
returns-in-Err g c = refused_for g.E.From.from_gives g.T.AnyMeaning.reading_grows c.in-Err.e c.from.result _ c.from.ensures (λ e. absurd (c.in-Err.ensures.0 e)) (λ _ v m. c.in-Err.ensures.1 m.tagged)
