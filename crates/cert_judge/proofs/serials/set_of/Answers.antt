use Rattle.std.proofs.Common.{inl, inr}
use Rattle.cert_judge.proofs.SerialFacts.{set_empty}
use Rattle.cert_judge.proofs.serials.set_of.Goals as goal

pub returns : goal.returns
returns c = λ s.
    let a = c.in_ok-add_all.ensures s in
    (λ h. elim (a.0 h) [ inl x ↦ absurd (set_empty c.new-set.result c.new-set.ensures.empty s x) | inr x ↦ x ], λ h. a.1 (inr h))
