use Rattle.std.proofs.Common.{◌∙◌, sym, refl, inl, inr}
use Rattle.std.proofs.lemmas.Bool.{false≢true}
use Rattle.host_names.proofs.LabelFacts.{matches_spelled, matched}
use Rattle.host_names.proofs.name.dns_matches.Goals as goal
use Rattle.host_names.proofs.name.dns_matches.Goals.{else-is_same-via-then-is_same+else-is_name, else-is_same-via-else-is_same}

pub returns-then-is_name : goal.returns-then-is_name
returns-then-is_name c = (λ h. matches_spelled c.args.presented.now c.args.host.now (c.is_same.ensures.0 c.if-is_same.true) (c.is_name.ensures.0 c.if-is_name.true), λ m. refl)

pub returns-in-None : goal.returns-in-None
returns-in-None c = (
  λ h. absurd (false≢true h),
  λ m. elim (matched c.args.presented.now c.args.host.now m) [
    | inl s ↦ elim c.else-is_same.branch [
      | else-is_same-via-then-is_same+else-is_name w ↦ absurd (false≢true (sym w.if-is_name.false ∙ w.is_name.ensures.1 s.1))
      | else-is_same-via-else-is_same w ↦ absurd (false≢true (sym w.if-is_same.false ∙ c.is_same.ensures.1 s.0))
    ]
    | inr s ↦ absurd (c.in-None.ensures.only s.0 s.1)
  ],
)
