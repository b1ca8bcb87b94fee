use Rattle.std.proofs.Common.{◌≡◌, ◌∙◌, ◌-◌, sym, subst, ap, [], ◌∷◌, ◌++◌, List, take, arith}
use Rattle.std.proofs.lemmas.List.{append-nil}
use Rattle.std.specs.List.{Contains}
use Rattle.certpath_why.specs.declared.ranges.Range.{Range}
use Rattle.certpath_why.specs.Ranges.{AreRanges}
use Rattle.certpath_why.proofs.Ranging.{begun, gone_on, gap_after}
use Rattle.cert_judge.proofs.Mapped.{not_both}
use Rattle.certpath_why.proofs.ranges.add_place.Goals as goal
use Rattle.certpath_why.proofs.ranges.add_place.Goals.{in-Some+then-follows, in-Some+else-follows+in_ok-push, in_default}

pub returns : goal.returns
returns c = λ ps below h.
    let old = c.args.ranges.now.items in
    let place = c.args.place in
    let Right : List Range → Type 0 = λ rs. AreRanges (Contains (ps ++ place ∷ [])) rs in
    let is = c.in_ok-push-2.ensures.items in
    elim c.match-pop.branch [
      | in-Some+then-follows w ↦
          let x = w.in-Some.before in
          subst Right (sym (rw (w.ranges-is, w.range-is) at is)) (gone_on ps place c.pop.new.self.items x (subst (AreRanges (Contains ps)) w.in-Some.ensures.items h) (w.follows.ensures.0 w.if-follows.true))
      | in-Some+else-follows+in_ok-push w ↦
          let x = w.in-Some.before in
          let same = w.in-Some.ensures.items in
          let kept = subst (AreRanges (Contains ps)) same h in
          let gap = gap_after ps place c.pop.new.self.items x kept below (λ e. not_both _ (w.follows.ensures.1 e) w.if-follows.false) in
          subst Right (sym (rw (w.ranges-is, w.range-is, w.in_ok-push.ensures.items) at is)) (begun ps place (c.pop.new.self.items ++ x ∷ []) kept gap)
      | in_default w ↦
          let e = w.in_default.ensures in
          let empty : old ≡ [] = e.items ∙ append-nil c.pop.new.self.items ∙ e.rest ∙ ap (λ n. take (n - 1) old) e.cases.0 in
          let kept : AreRanges (Contains ps) [] = subst (AreRanges (Contains ps)) empty h in
          let now : c.pop.new.self.items ≡ [] = e.rest ∙ ap (λ n. take (n - 1) old) e.cases.0 in
          subst Right (sym (rw (w.ranges-is, w.range-is, now) at is)) (begun ps place [] kept (λ r at. let lt = at.1 in absurd (omega arith)))
    ]
