use Rattle.std.proofs.Common.{ap, length, arith}
use Rattle.certpath_pem.proofs.StepFacts.{begun_entries}
use Rattle.certpath_pem.proofs.blocks.begin_entry.Goals as goal

pub returns-clause-found : goal.returns-clause-found
returns-clause-found c =
    let body = c.read_body-count.result in
    begun_entries c.args.label.now c.args.after.now body.0.now body.1.now c.args.number body.2 c.is_ended-ended.result _ c.read_body-count.ensures.reads c.read_body-count.ensures.stops c.is_ended-ended.ensures c.at-next.ensures.left

pub returns-clause-shorter : goal.returns-clause-shorter
returns-clause-shorter c = omega (arith, c.read_body-count.ensures.reads.room, ap length c.at-next.ensures.rest)

pub at-next-requires : goal.at-next-requires
at-next-requires c = omega (arith, c.read_body-count.ensures.reads.room, c.requires)
