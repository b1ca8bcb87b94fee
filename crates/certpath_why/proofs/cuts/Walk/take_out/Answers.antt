use Rattle.std.proofs.Common.{sym, subst, List}
use Rattle.certpath_why.specs.Cuts.{AreSpaced, IsTaken}
use Rattle.certpath_why.specs.declared.ranges.Range.{Range}
use Rattle.certpath_why.proofs.cuts.Walk.take_out.Goals as goal

pub returns : goal.returns
returns c = λ done cut spaced below.
    let r = c.in_ok-go_to.ensures done cut spaced below in
    subst (λ (l : List Range). IsTaken c.args.place l c.split.new.self) r.same (c.in_ok-split.ensures r.done r.cut (subst (AreSpaced 0) (sym r.same) spaced) r.ready)
