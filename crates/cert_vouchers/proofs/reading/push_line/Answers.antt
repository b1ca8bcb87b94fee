use Rattle.std.proofs.Common.{sym, inl, inr, ◌∙◌, refl}
use Rattle.cert_vouchers.proofs.PairFacts.{one_pair, told_again, when_ok}
use Rattle.cert_vouchers.proofs.reading.push_line.Goals as goal

pub returns-in_default-clause-refused : goal.returns-in_default-clause-refused
returns-in_default-clause-refused c = (
  refl,
  λ w. elim w [
    | inl empty ↦ let a = c.if-is_empty.false in let b = c.is_empty.ensures in let d = rw empty at b in cc
    | inr t ↦ let x = c.pair_of.ensures.only t.0 t.1 t.2 in let y = rw c.in_default.is at x in absurd y
  ],
)

pub returns-clause-pairs : goal.returns-clause-pairs
returns-clause-pairs c = λ key item.
    let found = c.in-Some.ensures.found in
    let more = when_ok c.push.result _ c.push.ensures.pushed (sym c.is_err.ensures.value ∙ c.if-is_err.false) key item in (
      λ h. elim (more.0 h) [ inl old ↦ inl old | inr same ↦ inr (told_again c.args.line.now c.in-Some.pair.0 c.in-Some.pair.1 key item found same.0 same.1) ],
      λ t. elim t [ inl old ↦ more.1 (inl old) | inr line ↦ more.1 (inr (one_pair c.args.line.now key item c.in-Some.pair.0 c.in-Some.pair.1 line found)) ],
    )
