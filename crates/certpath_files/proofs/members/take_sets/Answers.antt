use Rattle.std.proofs.Common.{◌≡◌, ◌==◌, ◌⊎◌, ◌∙◌, sym, false, length, inl, inr}
use Rattle.certpath_files.specs.RowViews.{spot_view}
use Rattle.certpath_files.specs.ReportViews.{held_in}
use Rattle.certpath_files.specs.SignedViews.{sets_view}
use Rattle.certpath_files.proofs.LoopFacts.{on_ok, sets_added}
use Rattle.certpath_files.proofs.members.take_sets.Goals as goal
use Rattle.certpath_files.proofs.members.take_sets.Goals.{else-is_empty-via-then-is_empty+else-is_empty-2, else-is_empty-via-else-is_empty}

pub returns : goal.returns
returns c =
    let some : ((length c.args.sets.certificates.now == 0) ≡ false) ⊎ ((length c.args.sets.lists.now == 0) ≡ false) =
    elim c.else-is_empty.branch [
      | else-is_empty-via-then-is_empty+else-is_empty-2 w ↦ inr (sym w.is_empty-then-is_empty.ensures ∙ w.if-is_empty-2.false)
      | else-is_empty-via-else-is_empty w ↦ inl (sym c.is_empty.ensures ∙ w.if-is_empty.false)
    ] in
    on_ok c.take_members-2.result _ _ c.take_members-2.ensures
    (λ last. sets_added (held_in c.args.report.now) (held_in c.take_members.new.report) (held_in c.take_members-2.new.report) (spot_view c.args.spot) (sets_view c.args.sets) some c.in_ok-take_members.ensures last)
