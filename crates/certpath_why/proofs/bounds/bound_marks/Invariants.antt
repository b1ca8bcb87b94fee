use Rattle.std.specs.List.{Contains}
use Rattle.std.proofs.Common.{ℕ, take}
use Rattle.cert_judge.specs.Items.{rules_by}
use Rattle.certpath_why.specs.Question.{items_in}
use Rattle.certpath_why.specs.Bounds.{reach_by, IsHeldBack}
use Rattle.certpath_why.specs.Held.{IsHeld}
use Rattle.certpath_why.specs.Found.{AreMarked}
use Rattle.certpath_why.proofs.bounds.bound_marks.Given as goal

abbrev pub invariant-loop-place : goal.invariant-loop-place
invariant-loop-place g l = IsHeld l.question (g.S.Vouch.vouches_for l.search) l.searched.firsts.now (reach_by l.answer) l.held l.marks.items × AreMarked (λ v. (w : ℕ) × Contains (take l.place-index l.further) w
    × IsHeldBack (rules_by l.question.policy.now.moment l.question.policy.now.demand_lists (g.S.Vouch.vouches_for l.search)) (items_in l.question) (reach_by l.answer) w v) l.initial.marks.items l.marks.items
