use Rattle.std.proofs.Common.{sym, ap, ◌∙◌, length, arith}
use Rattle.std.specs.Prelude.{option_copied}
use Rattle.certpath_pem.specs.Blocks.{ends_open}
use Rattle.certpath_pem.proofs.StepFacts.{ended_entries, stray_entries}
use Rattle.certpath_pem.proofs.blocks.end_entry.Goals as goal

pub returns-then-ends_open-clause-found : goal.returns-then-ends_open-clause-found
returns-then-ends_open-clause-found c =
    ended_entries c.args.number c.args.after.now (ends_open (option_copied c.args.opened) c.args.label.now) _ (sym c.ends_open.ensures ∙ c.if-ends_open.true) c.at-next.ensures.left

pub returns-then-ends_open-clause-shorter : goal.returns-then-ends_open-clause-shorter
returns-then-ends_open-clause-shorter c = omega (arith, ap length c.at-next.ensures.rest)

pub returns-else-ends_open-clause-found : goal.returns-else-ends_open-clause-found
returns-else-ends_open-clause-found c =
    stray_entries c.args.number c.args.after.now (ends_open (option_copied c.args.opened) c.args.label.now) _ (sym c.ends_open.ensures ∙ c.if-ends_open.false) c.at-next.ensures.left

pub returns-else-ends_open-clause-shorter : goal.returns-else-ends_open-clause-shorter
returns-else-ends_open-clause-shorter c = omega (arith, ap length c.at-next.ensures.rest)
