use Rattle.std.proofs.Common.{sym, ◌∙◌}
use Rattle.certpath_files.proofs.ShapeFacts.{none_left}
use Rattle.certpath_files.proofs.shape.begins_with_parts.Goals as goal

pub returns-in_default : goal.returns-in_default
returns-in_default c =
    sym (none_left c.args.firsts.now c.loop-first.rest.now c.loop-first.first-index c.loop-first-test.true (sym c.in_default.ensures.value)) ∙ c.loop-first.invariant
