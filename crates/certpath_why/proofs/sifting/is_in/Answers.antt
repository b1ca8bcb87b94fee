use Rattle.std.proofs.Common.{refl}
use Rattle.cert_judge.proofs.Mapped.{not_both}
use Rattle.certpath_why.proofs.Spacing.{in_at}
use Rattle.certpath_why.proofs.sifting.is_in.Goals as goal

pub returns-in-Some : goal.returns-in-Some
returns-in-Some c = (λ t. in_at c.args.ranges.now c.args.place _ c.in-Some.ensures.found.0 c.in-Some.ensures.found.1, λ i. refl)

pub returns-in-None : goal.returns-in-None
returns-in-None c = (λ t. absurd (not_both _ t refl), λ i. absurd (c.in-None.ensures.none refl c.requires i))
