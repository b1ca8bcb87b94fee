use Rattle.std.proofs.Common.{[]}
use Rattle.certpath_find.proofs.KeyIdFacts.{octets_only, no_memory}
use Rattle.certpath_find.proofs.key_ids.octets_at.Goals as goal

pub returns-in_default-clause-only : goal.returns-in_default-clause-only
returns-in_default-clause-only c = λ content small is.
    let x = c.from_der.ensures.only content [] (octets_only c.args.octets.now content small is) in
    let y = rw c.in_default.is at x in
    let z = rw c.in_default.is at c.from_der.ensures.memory in absurd (no_memory _ y z)

pub returns-clause-only : goal.returns-clause-only
returns-clause-only c = λ content small is.
    let x = c.in-Ok.ensures.only content [] (octets_only c.args.octets.now content small is) in x.0
