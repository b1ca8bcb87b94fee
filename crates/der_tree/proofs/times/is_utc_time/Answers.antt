use Rattle.der_tree.specs.TimeReading.{moment_of}
use Rattle.der_tree.proofs.TimeLemmas.{utc_test, utc_open, utc_none}
use Rattle.der_tree.proofs.times.is_utc_time.Goals as goal

pub returns-then-is_end : goal.returns-then-is_end
returns-then-is_end c =
    utc_test c.args.content.now (moment_of c.in-Some.clock) c.in-Some.rest.now c.is_real.result c.in-Some.ensures.value (c.is_end.ensures.0 c.if-is_end.true) c.is_real.ensures

pub returns-else-is_end : goal.returns-else-is_end
returns-else-is_end c =
    let never = c.if-is_end.false in (
      λ t. absurd cc,
      λ p. absurd (utc_open c.args.content.now (moment_of c.in-Some.clock) c.in-Some.rest.now c.in-Some.ensures.value (λ end. let t = c.is_end.ensures.1 end in cc) p),
    )

pub returns-in-None : goal.returns-in-None
returns-in-None c = (λ t. absurd cc, λ p. absurd (utc_none c.args.content.now c.in-None.ensures.value p))
