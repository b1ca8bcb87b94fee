use Rattle.der_tree.specs.TimeReading.{moment_of}
use Rattle.der_tree.proofs.TimeLemmas.{generalized_test, generalized_open, generalized_none}
use Rattle.der_tree.proofs.times.is_generalized_time.Goals as goal

pub returns-then-ends_time : goal.returns-then-ends_time
returns-then-ends_time c =
    generalized_test c.args.content.now (moment_of c.in-Some.clock) c.in-Some.rest.now c.is_real.result c.in-Some.ensures.value (c.ends_time.ensures.0 c.if-ends_time.true) c.is_real.ensures

pub returns-else-ends_time : goal.returns-else-ends_time
returns-else-ends_time c =
    let never = c.if-ends_time.false in (
      λ t. absurd cc,
      λ p. absurd (generalized_open c.args.content.now (moment_of c.in-Some.clock) c.in-Some.rest.now c.in-Some.ensures.value (λ end. let t = c.ends_time.ensures.1 end in cc) p),
    )

pub returns-in-None : goal.returns-in-None
returns-in-None c = (λ t. absurd cc, λ p. absurd (generalized_none c.args.content.now c.in-None.ensures.value p))
