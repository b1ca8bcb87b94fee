use Rattle.std.proofs.Common.{ℕ, ◌+◌, ◌<◌, ◌≤◌, ◌^◌, get_or, drop, sym, ap, ◌∙◌, arith}
use Rattle.asn1_oid.specs.Reading.{pushed, is_small_after}
use Rattle.asn1_oid.proofs.Steps.{small-end, small-step_last, small-step_more, small-stops, small-begins}
use Rattle.asn1_oid.proofs.content.small.Goals as goal
use Rattle.asn1_oid.proofs.content.small.Goals.{then-octet-lt128, else-octet-lt128+else-next-eq0}

pub returns-in_default : goal.returns-in_default
returns-in_default c =
    let large : 2 ^ 64 ≤ pushed c.loop-octet.number (get_or c.args.octets.now c.loop-octet.octet-index 0) = omega (arith, c.in_default.ensures) in
    sym (small-stops c.loop-octet.number c.loop-octet.octet-index c.args.octets.now c.loop-octet-test.true large) ∙ c.loop-octet.invariant

pub returns-then-next-eq0 : goal.returns-then-next-eq0
returns-then-next-eq0 c =
    let none = sym c.in-Some.ensures.1 ∙ c.if-next-eq0.true in
    sym (small-begins c.loop-octet.number c.loop-octet.octet-index c.args.octets.now c.loop-octet-test.true c.if-octet-lt128.false none)
    ∙ c.loop-octet.invariant

pub loop-octet-preserved : goal.loop-octet-preserved
loop-octet-preserved c =
    let n = c.loop-octet.number in
    let i = c.loop-octet.octet-index in
    let octets = c.args.octets.now in
    let later = drop (i + 1) octets in
    elim c.if-octet-lt128.branch [
      | then-octet-lt128 w ↦
          ap (λ (k : ℕ). is_small_after k later) w.number-is
          ∙ sym (small-step_last n i octets c.loop-octet-test.true w.if-octet-lt128.true c.in-Some.ensures.0) ∙ c.loop-octet.invariant
      | else-octet-lt128+else-next-eq0 w ↦
          let above : 0 < pushed n (get_or octets i 0) = omega (arith, w.if-next-eq0.false, c.in-Some.ensures.1) in
          ap (λ (k : ℕ). is_small_after k later) (w.number-is ∙ c.in-Some.ensures.1)
          ∙ sym (small-step_more n i octets c.loop-octet-test.true w.if-octet-lt128.false c.in-Some.ensures.0 above) ∙ c.loop-octet.invariant
    ]

pub returns : goal.returns
returns c =
    sym (small-end c.loop-octet.number c.loop-octet.octet-index c.args.octets.now (omega arith)) ∙ c.loop-octet.invariant
